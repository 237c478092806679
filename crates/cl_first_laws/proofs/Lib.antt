pub mod Exchanges
pub mod Below
