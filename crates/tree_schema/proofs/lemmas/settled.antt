-- Each item has a value that fits, and stands at its place.
pub mod Faultless
pub mod Items
pub mod Laws
pub mod Places
pub mod Settled
