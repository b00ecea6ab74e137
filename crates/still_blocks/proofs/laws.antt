pub mod Joined
pub mod Still
pub mod Played
pub mod Run
pub mod Block
