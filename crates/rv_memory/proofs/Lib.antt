-- The lemmas of values and their bytes, of pages, and of fetches.
pub mod Values
pub mod Marked
pub mod Paged
pub mod Shown
pub mod Same
pub mod Fetches
mod Touched
