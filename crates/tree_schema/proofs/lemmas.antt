-- Laws of this crate's definitions that crates above cite.
pub mod named
pub mod settled
pub mod valued
pub mod walked
