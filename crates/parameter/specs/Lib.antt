pub mod Parameter
pub mod Range
