pub mod Answer
pub mod Silence
