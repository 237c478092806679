pub mod Texts
pub mod Results
pub mod Leaving
pub mod Inspecting
