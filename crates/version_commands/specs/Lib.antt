pub mod Ends
pub mod Rehashed
pub mod Verified
pub mod Dumped
pub mod Frozen
pub mod Seen
pub mod Acting
