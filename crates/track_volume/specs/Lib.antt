pub mod TrackVolume
