pub mod Named
pub mod Seen
pub mod Showing
pub mod Counted
pub mod steps
