pub mod Distance
pub mod Relative
pub mod Unity
pub mod Spatial
pub mod Thousandths
