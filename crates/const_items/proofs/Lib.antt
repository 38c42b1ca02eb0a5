mod EachItem
mod General
mod Orders
pub mod lemmas
mod Behind
mod Within
