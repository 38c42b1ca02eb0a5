mod Tables
mod Written
pub mod lemmas
mod Elements
mod Parts
mod Plain
mod Rows
mod SideBySide
