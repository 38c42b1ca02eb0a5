pub mod Replaying
pub mod steps
