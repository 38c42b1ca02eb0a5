-- What the code's steps do, for inner contracts: no contract of a function that the crate exports cites it.
pub mod Completes
pub mod Members
pub mod Numbers
pub mod Parts
pub mod Places
pub mod Plain
