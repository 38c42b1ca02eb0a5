-- Laws of this crate's definitions that crates above cite.
pub mod Names
pub mod Written
