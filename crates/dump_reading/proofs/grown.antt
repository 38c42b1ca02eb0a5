-- A dump has its trees: `law_dump_tree`.
pub mod Declarations
pub mod Lines
pub mod Made
pub mod Parts
pub mod Values
