pub mod Root
pub mod NearestRoot
