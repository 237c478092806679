-- The definitions that contracts cite: an image's text, what bytes are read as,
-- all tests in their order, and worked values of them.
pub mod Text
pub mod Reading
pub mod ReadingAnswers
pub mod Order
pub mod Worked
