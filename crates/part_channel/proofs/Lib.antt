-- The lemmas of the two sides, from their lists up to what a channel is left with.
pub mod Words
pub mod Lists
pub mod Sent
pub mod Received
pub mod Leaves
pub mod Agreed
