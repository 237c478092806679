pub mod Held
pub mod Laws
pub mod Marks
pub mod Motions
pub mod Reads
pub mod Turns
pub mod Walking
pub mod Watching
