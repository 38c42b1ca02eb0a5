-- Laws of this crate's definitions that crates above cite.
pub mod Depths
pub mod Fronts
pub mod Levels
pub mod Nexts
pub mod OneZero
pub mod Sounds
pub mod Views
