pub mod Adds
pub mod Grows
