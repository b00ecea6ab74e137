pub mod Nearest
pub mod Narrow
pub mod NarrowNearest
pub mod Duration
