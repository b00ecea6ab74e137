pub mod Silence
