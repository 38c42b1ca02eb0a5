-- What the code's steps do, for inner contracts: no contract of a function that the crate exports cites it.
pub mod Terminals
pub mod Names
pub mod Expressions
pub mod Annotations
pub mod Declarations
pub mod Methods
pub mod Rows
pub mod Moves
pub mod Places
pub mod Seen
