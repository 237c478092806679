-- The lemmas behind the answers: a loop's steps, one more member, what a reading takes, distinct ranks, the header's numbers, names that rise, symbols, the whole, the order of the tests.
pub mod Loop
pub mod Named
pub mod Takes
pub mod Distinct
pub mod Steps
pub mod Numbers
pub mod Rising
pub mod SymbolSteps
pub mod Whole
pub mod OrderFollows
pub mod OrderSymbols
pub mod Order
