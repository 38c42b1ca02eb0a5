pub mod lemmas
mod Examples
mod Exact
mod Slashes
mod Stems
mod Lengths
mod Levels
mod Steps
mod Bodies
mod Records
mod Explains
