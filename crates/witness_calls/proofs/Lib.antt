mod Collected
mod NoCode
mod Positions
mod Shown
mod Tables
mod Tests
mod Types
pub mod lemmas
