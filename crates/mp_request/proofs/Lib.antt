pub mod Distinct
pub mod Handles
pub mod Maps
pub mod Filled
pub mod Cases
pub mod CallLaws
