pub mod Tallying
pub mod Ranges
pub mod Counters
pub mod Mails
pub mod Tabling
pub mod EachKind
pub mod Witnesses
