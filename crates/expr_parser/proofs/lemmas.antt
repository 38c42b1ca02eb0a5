-- Laws of this crate's definitions that crates above cite.
pub mod Found
pub mod Looping
pub mod Told
