-- Laws of this crate's definitions that crates above cite.
pub mod ReadBack
pub mod Written
