pub mod Head
pub mod Write
