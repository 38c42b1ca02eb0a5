mod Classes
mod Loop
mod Moving
mod Runs
pub mod lemmas
mod meaning
