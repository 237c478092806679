pub mod Allowed
pub mod ArrowTitles
pub mod Shown
