pub mod Moves
pub mod Standing
pub mod Ahead
pub mod Ends
pub mod Whole
pub mod Posts
pub mod Sure
pub mod Cycles
