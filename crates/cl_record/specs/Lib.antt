pub mod Plans
pub mod BoxKeys
pub mod Records
pub mod Leaving
pub mod Wiring
pub mod Settling
pub mod Seats
pub mod Loading
