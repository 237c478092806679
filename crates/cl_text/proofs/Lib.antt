-- The lemmas behind the answers: pieces that are written one after the other, how short a text is; that what is spelled
-- is read again, and that what is read is spelled so, of replies, of steps and of the whole; loops; fronts of streams.
pub mod Pieces
pub mod Short
pub mod ReadAgainReplies
pub mod ReadAgainSteps
pub mod ReadAgain
pub mod Spelled
pub mod SpelledReplies
pub mod SpelledSteps
pub mod SpelledWhole
pub mod Gots
pub mod Loop
pub mod Blocks
pub mod OrderFollows
pub mod OrderSteps
pub mod Order
pub mod Fronts
