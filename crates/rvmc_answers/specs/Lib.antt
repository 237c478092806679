pub mod Ends
pub mod Outputs
pub mod Plans
pub mod Images
pub mod Taking
pub mod Whys
pub mod Making
pub mod Below
