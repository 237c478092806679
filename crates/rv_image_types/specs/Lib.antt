-- The definitions that contracts cite: what an image is, its limits, and the names of its symbols.
pub mod Limits
pub mod Names
pub mod Image
