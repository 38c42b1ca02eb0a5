mod Bools
mod Examples
mod Tables
mod Tokens
pub mod Viability
mod productions
mod runs
