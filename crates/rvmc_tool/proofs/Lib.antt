pub mod Fitting
pub mod Told
pub mod Below
pub mod Aloud
pub mod Searching
