-- Laws of this crate's definitions that crates above cite.
pub mod Asked
pub mod Failing
pub mod Fronts
pub mod Telling
