-- Laws of this crate's definitions that crates above cite.
pub mod OneAnswer
pub mod ValidOf
pub mod SomeAnswer
