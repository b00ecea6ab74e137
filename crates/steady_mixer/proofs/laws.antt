pub mod MixerSteady
pub mod Asked
pub mod Waited
pub mod Settled
pub mod Steady
pub mod Lasting
