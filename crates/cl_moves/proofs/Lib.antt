pub mod Asking
pub mod Following
pub mod Ways
pub mod Going
pub mod Rounds
pub mod Watched
pub mod Resting
pub mod Surely
