pub mod Grammar
pub mod Readings
