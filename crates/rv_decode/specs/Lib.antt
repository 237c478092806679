-- The fields of a word, the instruction table, its look-up, the instructions' texts, and worked values.
pub mod Fields
pub mod Table
pub mod WordOf
pub mod Decoded
pub mod Text
pub mod Worked
pub mod Written
