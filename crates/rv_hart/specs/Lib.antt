-- What a hart is, what an instruction does to it, its step, and worked values.
pub mod Numbers
pub mod Results
pub mod State
pub mod Effect
pub mod Relation
pub mod Stepped
pub mod Stores
pub mod Worked
