pub mod PlaybackStateManager
pub mod Runs
