-- What the code's steps do, for inner contracts: no contract of a function that the crate exports cites it.
pub mod Collected
pub mod Positions
pub mod Projected
pub mod Shown
pub mod Tables
