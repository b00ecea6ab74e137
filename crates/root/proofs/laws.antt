pub mod Patterns
pub mod Last
pub mod SquareTest
pub mod NoTie
pub mod Root
pub mod Controls
