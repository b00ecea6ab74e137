pub mod Passed
pub mod Line
pub mod Values
pub mod Placed
pub mod Accepted
