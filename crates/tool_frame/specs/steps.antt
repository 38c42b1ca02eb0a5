-- What the code's steps do, for inner contracts: no contract of a function that the crate exports cites it.
pub mod Acts
pub mod Trees
pub mod Carried
