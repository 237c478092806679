pub mod HintLines
pub mod Beginnings
pub mod Shown
