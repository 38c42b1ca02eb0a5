-- What the code's steps do, for inner contracts: no contract of a function that the crate exports cites it.
pub mod Scopes
