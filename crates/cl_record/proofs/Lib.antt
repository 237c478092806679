pub mod Elements
pub mod Keys
pub mod Left
pub mod Leaves
pub mod BoxesLeft
pub mod Links
pub mod Sides
pub mod Loads
pub mod Wires
pub mod Merged
pub mod Plains
mod RunsOut
