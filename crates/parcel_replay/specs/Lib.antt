pub mod Replays
pub mod Traced
