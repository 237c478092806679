-- The definitions of the box, from its gate words up to what it is left with.
pub mod Gate
pub mod LastReady
pub mod Steps
pub mod Seats
pub mod Rule
pub mod Fields
pub mod Keys
pub mod Settling
pub mod Spelled
pub mod Laws
pub mod Rows
pub mod Worked
