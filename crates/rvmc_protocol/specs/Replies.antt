pub mod Digits
pub mod Features
pub mod Laws
pub mod Parts
pub mod Stops
pub mod Threads
