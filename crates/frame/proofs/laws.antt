pub mod Places
pub mod Layout
pub mod Turn
pub mod Sides
pub mod Numbers
