mod Ahead
mod Copies
mod Leads
pub mod lemmas
mod OfFiles
