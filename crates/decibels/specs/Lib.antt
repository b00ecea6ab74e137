pub mod Decibels
pub mod Answer
