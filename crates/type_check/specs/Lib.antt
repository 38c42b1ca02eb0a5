pub mod Bounds
pub mod Stages
pub mod Checked
pub mod Refusals
