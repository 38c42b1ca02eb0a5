pub mod Paths
pub mod steps
