pub mod Blocks
pub mod Orders
pub mod Turn
