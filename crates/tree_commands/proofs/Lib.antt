mod Short
mod Adding
mod Results
pub mod lemmas
