pub mod Below
pub mod Held
pub mod Muted
pub mod Orders
pub mod Places
