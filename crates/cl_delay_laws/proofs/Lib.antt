pub mod Polls
pub mod Delays
