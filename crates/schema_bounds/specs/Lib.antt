pub mod Bounds
pub mod steps
