pub mod BreakPlaces
pub mod Keeping
pub mod Led
pub mod OneStop
pub mod Ranks
pub mod Shows
pub mod Stopping
pub mod Moved
