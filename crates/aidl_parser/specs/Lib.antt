pub mod steps
pub mod Limits
pub mod Refusals
