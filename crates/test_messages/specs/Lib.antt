pub mod Accepted
pub mod Boards
pub mod Calls
pub mod Premises
pub mod Held
pub mod Anew
