mod Walks
pub mod lemmas
