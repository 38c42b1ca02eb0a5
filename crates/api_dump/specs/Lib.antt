pub mod Pieces
pub mod Types
pub mod Values
pub mod Lines
pub mod Declarations
pub mod Dump
pub mod steps
