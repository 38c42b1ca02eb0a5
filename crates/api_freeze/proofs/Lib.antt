mod Chains
mod Failed
mod Files
mod Numbered
mod Untold
pub mod lemmas
