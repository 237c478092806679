pub mod Right
pub mod Lists
pub mod Hub
pub mod Requests
pub mod Told
pub mod Clusters
pub mod Runs
