pub mod Renderer
pub mod Channels
pub mod Lengths
