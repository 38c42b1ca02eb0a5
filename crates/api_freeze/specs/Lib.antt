pub mod Causes
pub mod Chains
pub mod Freeze
pub mod Rehash
pub mod steps
