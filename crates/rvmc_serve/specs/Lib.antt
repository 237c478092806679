pub mod Sessions
pub mod Serving
pub mod Lines
pub mod Typing
pub mod Laws
pub mod Below
