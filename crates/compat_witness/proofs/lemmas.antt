-- Lemmas for the crates above.
pub mod Decided
pub mod Laws
pub mod SameSides
