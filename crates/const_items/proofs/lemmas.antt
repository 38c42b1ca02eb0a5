-- Laws of this crate's definitions that crates above cite.
pub mod Keys
pub mod Numbers
pub mod PlacesWithin
pub mod Scopes
