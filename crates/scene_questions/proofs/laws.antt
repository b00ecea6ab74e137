pub mod Places
pub mod Samples
pub mod FileSize
pub mod Asked
pub mod LineQuestions
pub mod FirstNo
