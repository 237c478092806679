pub mod Kept
pub mod Passing
pub mod Going
pub mod Turns
pub mod Fits
pub mod Lone
pub mod Below
pub mod Waiting
