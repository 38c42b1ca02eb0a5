-- What each command means is one thing at the least.
pub mod Acting
pub mod ByTree
pub mod Freezing
pub mod Making
pub mod Meanings
pub mod Versions
pub mod Witnessing
pub mod Words
pub mod WordsFit
