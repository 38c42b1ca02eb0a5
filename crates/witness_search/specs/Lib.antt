pub mod Asked
pub mod IsWitness
pub mod ReachTables
pub mod Seen
pub mod steps
