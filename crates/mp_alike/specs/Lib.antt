pub mod Names
pub mod InnerNames
pub mod InnerAlike
pub mod InnerOver
pub mod InnerLive
