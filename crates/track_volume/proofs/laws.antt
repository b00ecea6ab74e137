pub mod Steady
pub mod Placing
