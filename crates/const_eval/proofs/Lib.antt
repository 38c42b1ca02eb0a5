mod InOrder
mod Meant
mod OneItem
mod Progress
mod Settling
mod Turns
pub mod lemmas
