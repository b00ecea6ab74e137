pub mod Month
pub mod Piece
