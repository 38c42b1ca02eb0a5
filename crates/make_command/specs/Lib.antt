pub mod Making
pub mod Tally
pub mod steps
