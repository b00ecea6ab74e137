pub mod Sub
pub mod Mixer
pub mod Orders
pub mod Sounds
pub mod Mixes
pub mod MixerOk
