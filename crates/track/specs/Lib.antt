pub mod Sub
pub mod Mix
