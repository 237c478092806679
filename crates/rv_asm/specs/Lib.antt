pub mod Source
pub mod Made
pub mod Said
pub mod Directed
pub mod Reached
pub mod InParts
pub mod Holding
