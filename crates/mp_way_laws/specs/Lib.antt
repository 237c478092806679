pub mod Way
pub mod Runs
pub mod Laws
pub mod Answers
pub mod Rows
