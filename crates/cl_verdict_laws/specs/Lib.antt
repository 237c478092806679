pub mod Asking
pub mod Live
pub mod Verdicts
