mod Joined
mod Results
mod TreesRefused
mod Valid
mod Within
pub mod lemmas
