pub mod Linked
pub mod Mixed
pub mod CanRender
pub mod Clocks
pub mod Ends
pub mod Nanos
pub mod Turn
pub mod Follows
