pub mod Members
pub mod Faults
pub mod Tables
pub mod Numbers
pub mod Once
