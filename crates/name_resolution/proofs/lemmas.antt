-- Laws of this crate's definitions that crates above cite.
pub mod Candidates
pub mod Tables
pub mod Through
pub mod Told
pub mod Places
