pub mod ClockSpeed
pub mod ClockTime
pub mod Clock
pub mod WhenToStart
pub mod ChunkTime
