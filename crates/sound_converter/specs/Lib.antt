pub mod Convert
pub mod Contents
