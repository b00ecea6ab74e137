pub mod Links
pub mod Marks
pub mod Walk
