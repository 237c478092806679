pub mod Verdicts
pub mod Taken
pub mod TakenRuns
