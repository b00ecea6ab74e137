pub mod Rests
pub mod Joined
pub mod Still
