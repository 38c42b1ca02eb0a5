mod Limits
mod Rows
mod Standing
pub mod lemmas
