pub mod Agree
pub mod Heard
pub mod Methods
pub mod Nearest
pub mod Stays
pub mod Threads
pub mod Told
pub mod Walks
