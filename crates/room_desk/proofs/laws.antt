pub mod Render
pub mod Run
pub mod Silence
