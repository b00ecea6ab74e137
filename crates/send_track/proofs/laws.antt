pub mod Send
pub mod Steady
