pub mod Types
pub mod Backing
pub mod Initializers
