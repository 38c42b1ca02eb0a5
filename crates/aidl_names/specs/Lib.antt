pub mod Alike
pub mod Limits
pub mod Rules
pub mod Breaches
pub mod Refusals
pub mod Places
pub mod TypeRules
