pub mod ChunkOf
pub mod Follows
