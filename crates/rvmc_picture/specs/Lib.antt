pub mod Deeds
pub mod Ends
pub mod Notes
pub mod Pictures
pub mod Walking
pub mod Below
