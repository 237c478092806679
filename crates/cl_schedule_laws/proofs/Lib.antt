pub mod Walks
pub mod Schedules
