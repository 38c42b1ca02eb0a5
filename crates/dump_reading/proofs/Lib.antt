mod Back
mod spelled
mod grown
mod filed
mod named
mod settled
mod valued
mod ruled
mod drafted
pub mod lemmas
