pub mod Records
pub mod Faults
pub mod Pieces
pub mod Verdicts
