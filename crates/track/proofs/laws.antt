pub mod Sub
pub mod Mix
pub mod Running
pub mod RunningSends
pub mod Routes
pub mod Unused
pub mod Tracks
