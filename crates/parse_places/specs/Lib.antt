pub mod Viable
pub mod steps
