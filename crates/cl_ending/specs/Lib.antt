pub mod DeadEnds
pub mod Judged
pub mod Below
