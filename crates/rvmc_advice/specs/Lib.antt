pub mod Beside
pub mod Hints
pub mod Mistyped
pub mod Quiet
