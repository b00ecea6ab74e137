pub mod RootOver
