-- What each command means is one thing at the most.
pub mod Acting
pub mod Answers
pub mod Freezing
pub mod Meanings
pub mod Unread
pub mod Witnessing
