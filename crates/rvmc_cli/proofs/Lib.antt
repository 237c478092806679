pub mod Building
pub mod FromClap
pub mod Naming
