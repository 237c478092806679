pub mod Digits
pub mod Ends
pub mod Known
pub mod Names
pub mod Reached
pub mod Below
