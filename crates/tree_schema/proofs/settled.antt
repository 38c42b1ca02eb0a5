-- Each item has a value that fits, and stands at its place.
pub mod Fit
pub mod Given
pub mod Plain
pub mod Walks
