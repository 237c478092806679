pub mod Monitor
pub mod Packets
pub mod Replies
pub mod Requests
