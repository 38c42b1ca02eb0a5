mod Found
pub mod lemmas
