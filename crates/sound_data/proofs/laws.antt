pub mod Frames
pub mod Written
pub mod Back
pub mod Values
