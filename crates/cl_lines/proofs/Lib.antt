pub mod Pieces
pub mod Behind
pub mod Due
