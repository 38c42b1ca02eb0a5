-- Laws of this crate's definitions that crates above cite.
pub mod Parts
pub mod Unscripted
