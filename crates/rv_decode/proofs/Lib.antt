-- The look-up by opcode, its laws, and that an instruction has one word.
pub mod Lookup
pub mod Found
pub mod OneWord
