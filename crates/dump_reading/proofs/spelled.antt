-- A dump has its tokens: `law_dump_tokens`.
pub mod Declarations
pub mod Fits
pub mod Laid
pub mod Lines
pub mod Plain
pub mod Spelled
pub mod Texts
pub mod Values
