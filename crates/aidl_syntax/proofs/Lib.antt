mod Cutting
mod Rising
mod Walking
pub mod lemmas
