pub mod Tails
pub mod Written
pub mod Numbers
pub mod Fields
pub mod Sections
pub mod Layout
