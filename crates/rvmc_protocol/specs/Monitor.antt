pub mod Lines
pub mod Typed
pub mod Worked
