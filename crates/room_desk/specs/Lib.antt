pub mod Render
pub mod NeverEleven
