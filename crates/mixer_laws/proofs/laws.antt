pub mod Arrays
pub mod States
pub mod Made
pub mod Ordered
pub mod Moved
pub mod Mixes
