pub mod Sound
pub mod Holds
