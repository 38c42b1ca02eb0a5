pub mod LineText
pub mod CallLines
pub mod Projected
pub mod Running
pub mod steps
pub mod Trace
pub mod Tags
