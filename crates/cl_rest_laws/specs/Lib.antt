pub mod Unpaired
pub mod UnpairedLaw
pub mod Unreceived
pub mod Rests
pub mod Buffering
pub mod Laws
pub mod Ends
pub mod Worked
