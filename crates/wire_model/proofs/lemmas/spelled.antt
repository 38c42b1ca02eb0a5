-- What spells a value is a reading of it: `law_spelled_reads`.
pub mod Sizes
pub mod Reads
