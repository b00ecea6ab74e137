pub mod Chunk
