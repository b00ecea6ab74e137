pub mod Head
pub mod ReadBack
pub mod Lost
