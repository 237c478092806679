pub mod Lowest
pub mod Changes
pub mod Padding
pub mod Arrivals
pub mod Ends
pub mod Sides
pub mod SideLaws
pub mod SameMarks
