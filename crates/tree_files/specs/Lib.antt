pub mod Files
pub mod Sizes
pub mod Parsed
pub mod Refusals
pub mod steps
