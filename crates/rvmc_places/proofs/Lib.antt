pub mod Nearer
pub mod ReadBack
pub mod CallChains
pub mod OwnChains
pub mod WayChains
