pub mod Tween
pub mod Tweenable
pub mod StartTime
pub mod ChunkTime
