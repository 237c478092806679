-- The lemmas of a step over pages that were made first.
pub mod Placed
pub mod Fetched
pub mod SameRegisters
