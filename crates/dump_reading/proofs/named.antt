-- The names of a dump: `law_dump_imports` and `law_dump_names`.
pub mod Accepted
pub mod Declared
pub mod Entries
pub mod Files
pub mod Members
pub mod Resolved
pub mod Stand
