pub mod Command
pub mod Cut
pub mod Entries
pub mod Options
pub mod Paths
pub mod Rows
pub mod Seen
