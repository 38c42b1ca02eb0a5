-- Laws of this crate's definitions that crates above cite.
pub mod Agree
pub mod OneOutcome
pub mod SomeOutcomes
