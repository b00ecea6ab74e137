pub mod Removed
pub mod Silent
pub mod Alike
