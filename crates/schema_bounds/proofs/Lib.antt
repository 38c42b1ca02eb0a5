mod Graphs
mod Levels
mod Lists
mod Smalls
mod Totals
pub mod lemmas
