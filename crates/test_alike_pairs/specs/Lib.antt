pub mod Side
pub mod Pairs
pub mod Computed
