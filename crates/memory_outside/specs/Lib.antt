pub mod Edits
pub mod Failing
pub mod Last
pub mod Mem
