-- Laws of this crate's definitions that crates above cite.
pub mod Apart
pub mod BrokenChain
pub mod BrokenSelf
pub mod Chains
pub mod Counts
pub mod Elements
pub mod Orders
pub mod Places
pub mod Sames
pub mod Valids
