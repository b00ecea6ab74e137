pub mod Spatial
