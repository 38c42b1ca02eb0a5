-- Laws of this crate's definitions that crates above cite.
pub mod Courses
pub mod EarlyEnds
pub mod Endings
pub mod Halts
pub mod Writings
pub mod Asked
