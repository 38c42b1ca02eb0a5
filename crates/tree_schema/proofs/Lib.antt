mod Within
mod Few
mod InOrder
mod Keyed
mod Trees
pub mod lemmas
mod named
mod settled
mod typed
mod valued
mod walked
