pub mod Parameter
