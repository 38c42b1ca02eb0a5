pub mod steps
pub mod Seen
