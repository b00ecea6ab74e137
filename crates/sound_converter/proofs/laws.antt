pub mod Values
pub mod Convert
pub mod ThereAndBack
