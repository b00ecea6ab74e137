pub mod Reading
pub mod Stream
