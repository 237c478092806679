pub mod Ends
pub mod Recorded
pub mod Symbols
pub mod Naming
pub mod Verdicts
pub mod Whom
pub mod Chains
