-- Laws of this crate's definitions that crates above cite.
pub mod Earlier
pub mod Named
pub mod Trees
pub mod Chains
pub mod Compared
pub mod Firsts
pub mod SameNames
pub mod Times
