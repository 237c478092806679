-- What the type of instructions holds, what printed instructions are to the assembler, and worked values.
pub mod Range
pub mod Read
pub mod Worked
