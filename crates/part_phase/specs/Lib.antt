pub mod Limits
pub mod Sending
pub mod Receiving
pub mod Phases
pub mod Laws
pub mod SideLaws
pub mod Worked
