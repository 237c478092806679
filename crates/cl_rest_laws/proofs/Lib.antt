pub mod Unpaired
pub mod Unreceived
pub mod Resting
pub mod Buffering
pub mod Targets
pub mod Ends
pub mod Cases
