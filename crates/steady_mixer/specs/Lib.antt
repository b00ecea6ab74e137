pub mod Steady
pub mod MixerSteady
pub mod Settled
