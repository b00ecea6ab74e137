pub mod Lines
pub mod Head
pub mod Text
pub mod Month
pub mod Cut
pub mod Read
pub mod Names
