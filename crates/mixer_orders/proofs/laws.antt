pub mod There
pub mod Read
