mod Loaded
pub mod Puts
mod TreeFiles
pub mod lemmas
