pub mod MetaAnswers
pub mod Versions
pub mod Reserved
pub mod Seen
pub mod steps
