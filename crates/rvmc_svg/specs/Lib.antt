pub mod Adding
pub mod Escaped
pub mod Safe
pub mod Shown
pub mod Titles
