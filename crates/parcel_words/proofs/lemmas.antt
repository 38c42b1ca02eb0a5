-- Laws of this crate's definitions that crates above cite.
pub mod Appends
pub mod Faults
pub mod Moves
pub mod Records
