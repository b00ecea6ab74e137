pub mod Sound
pub mod Owners
