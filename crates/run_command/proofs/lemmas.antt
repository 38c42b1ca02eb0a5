-- Laws of this crate's definitions that crates above cite.
pub mod Lines
pub mod CourseEnds
pub mod RunsOne
pub mod Takes
