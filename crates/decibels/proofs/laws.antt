pub mod Decibels
pub mod Position
pub mod WholePart
pub mod Correction
