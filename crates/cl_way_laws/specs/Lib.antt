pub mod Met
pub mod Clusters
pub mod Laws
pub mod Rows
