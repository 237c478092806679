pub mod Deeds
pub mod Alone
pub mod Laws
pub mod Turns
pub mod Memory
pub mod Orders
