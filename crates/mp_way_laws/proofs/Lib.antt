pub mod Joined
pub mod Crossing
pub mod Parts
pub mod Came
pub mod Rows
pub mod Bodies
pub mod Boards
pub mod Answers
