-- Laws of this crate's definitions that crates above cite.
pub mod Defaults
pub mod Depths
pub mod Dots
pub mod Lookups
pub mod NamedTexts
pub mod Nodes
pub mod Opened
pub mod Reading
pub mod Seen
pub mod Sound
pub mod calls
pub mod received
pub mod spelled
