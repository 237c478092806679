pub mod Debug
pub mod Number
pub mod Worked
