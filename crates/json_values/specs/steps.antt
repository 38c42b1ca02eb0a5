-- What the code's steps do, for inner contracts: no contract of a function that the crate exports cites it.
pub mod Defaults
pub mod Given
pub mod Gives
pub mod Levels
pub mod Plain
pub mod Tables
