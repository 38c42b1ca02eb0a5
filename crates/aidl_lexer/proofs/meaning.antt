pub mod Found
pub mod Told
pub mod Standing
pub mod Whole
pub mod Answered
