-- Laws of this crate's definitions that crates above cite.
pub mod Blocks
pub mod Joined
pub mod Lists
pub mod Profiles
pub mod Ranges
pub mod Spelled
pub mod Tests
pub mod Texts
pub mod Values
pub mod Words
