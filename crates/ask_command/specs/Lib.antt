pub mod Versions
pub mod Interfaces
pub mod Asked
pub mod steps
