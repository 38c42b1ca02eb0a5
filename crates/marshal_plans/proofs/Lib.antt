mod Found
mod Orders
mod Places
mod Standings
pub mod lemmas
