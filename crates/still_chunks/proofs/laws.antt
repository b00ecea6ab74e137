pub mod Chunks
pub mod Still
pub mod Shifted
pub mod Pieces
