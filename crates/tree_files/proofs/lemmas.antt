-- Laws of this crate's definitions that crates above cite.
pub mod OfBytes
pub mod OneAnswer
pub mod Built
pub mod SomeAnswer
