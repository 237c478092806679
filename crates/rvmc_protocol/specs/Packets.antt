pub mod Frames
pub mod Laws
pub mod Reading
pub mod Texts
pub mod Worked
