pub mod End
pub mod Answers
pub mod Input
pub mod Laws
