pub mod Amplitudes
