pub mod BoxSteps
pub mod Rounds
pub mod Hubs
mod Desks
pub mod Stations
pub mod UnderWay
pub mod Seats
pub mod Joined
pub mod Pairs
pub mod Slots
pub mod Closed
pub mod Going
pub mod Alone
pub mod Ends
pub mod Left
pub mod Merged
pub mod Behind
pub mod AheadSlots
