pub mod Places
pub mod Slots
pub mod Standing
pub mod steps
