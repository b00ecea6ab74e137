pub mod Program
pub mod Print
pub mod FirstBytes
