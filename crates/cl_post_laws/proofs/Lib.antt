pub mod Renamed
pub mod Posting
pub mod Later
pub mod Sent
pub mod Asking
