pub mod Scene
pub mod Placed
