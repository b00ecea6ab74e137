pub mod Lines
pub mod SceneOk
