pub mod Scaled
pub mod Sixteen
pub mod Signed
pub mod Encodings
pub mod Back
pub mod Whole
