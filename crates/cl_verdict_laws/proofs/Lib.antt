pub mod Asking
pub mod Naming
pub mod Live
pub mod Verdicts
