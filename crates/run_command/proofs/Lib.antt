mod Cuts
mod Newlines
mod Projecting
pub mod lemmas
