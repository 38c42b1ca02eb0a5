-- These values are those of the schema: `law_dump_values`.
pub mod Entries
pub mod Enums
pub mod Values
pub mod WalkMembers
