mod Alike
pub mod lemmas
mod Examples
mod Orders
mod Spots
