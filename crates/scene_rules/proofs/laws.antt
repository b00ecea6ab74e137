pub mod Passes
pub mod Rules
