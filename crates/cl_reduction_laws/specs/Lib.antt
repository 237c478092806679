pub mod Complete
pub mod Patterns
pub mod Clusters
pub mod Settled
pub mod Laws
pub mod Below
