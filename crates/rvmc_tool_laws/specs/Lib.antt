pub mod Answers
pub mod Waits
pub mod Frames
