-- What no contract of an exported function cites.
pub mod Fields
pub mod First
pub mod Gives
pub mod Named
pub mod Reached
pub mod Records
pub mod Requests
pub mod Seen
pub mod Trials
