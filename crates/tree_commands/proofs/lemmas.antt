-- Laws of this crate's definitions that crates above cite.
pub mod OneAnswer
pub mod OneByTree
pub mod OfFile
pub mod Reading
