pub mod Machine
pub mod Still
pub mod Kept
pub mod Walks
pub mod Patience
