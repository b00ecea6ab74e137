pub mod Read
pub mod Also
pub mod Answer
pub mod Length
