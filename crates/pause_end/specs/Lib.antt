pub mod PauseEnd
