pub mod Exact
pub mod Ticks
pub mod Moves
pub mod ChunkTime
pub mod ClocksMove
pub mod Starts
