pub mod Waits
pub mod Texts
pub mod Unreceived
pub mod Why
pub mod WordTexts
pub mod Words
pub mod Below
