pub mod Gives
pub mod JsonText
pub mod Refusal
pub mod steps
pub mod Scalars
pub mod FromJson
