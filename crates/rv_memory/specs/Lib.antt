-- What a memory is, what its loads and stores answer, and worked values.
pub mod Fault
pub mod Pages
pub mod Held
pub mod Memory
pub mod MorePages
pub mod Access
pub mod Present
pub mod Readings
pub mod Fetched
pub mod Worked
