-- What the two sides of a channel know, and what each call makes of it.
pub mod Words
pub mod BoxWords
pub mod Shapes
pub mod Channels
pub mod Sending
pub mod Receiving
pub mod Settling
pub mod Worked
