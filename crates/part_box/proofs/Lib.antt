-- The lemmas of the box, from its lists up to what it is left with.
pub mod Lists
pub mod GateKept
pub mod Allowed
pub mod Leaves
pub mod Owned
pub mod Agreed
pub mod Kept
pub mod Cases
