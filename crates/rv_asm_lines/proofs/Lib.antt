pub mod LabelSteps
pub mod GlobalNames
