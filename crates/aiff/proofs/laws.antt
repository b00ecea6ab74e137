pub mod Head
pub mod ReadBack
