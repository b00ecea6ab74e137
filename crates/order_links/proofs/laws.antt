pub mod Links
pub mod Walk
pub mod Marks
