-- What the code's steps do, for inner contracts: no contract of a function that the crate exports cites it.
pub mod Arguments
pub mod Planned
pub mod Fronts
pub mod Names
pub mod Calls
pub mod Replies
pub mod Unread
pub mod Begins
