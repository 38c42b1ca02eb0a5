-- What the code's steps do, for inner contracts: no contract of a function that the crate exports cites it.
pub mod Parts
pub mod Types
pub mod Inits
pub mod Repeats
pub mod Items
pub mod Members
pub mod Decls
pub mod Answers
