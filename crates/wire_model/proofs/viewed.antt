-- What one schema spells, another reads as its view: `law_view_same`, `law_view_none` and `law_view_reads`.
pub mod Alike
pub mod Meeting
pub mod Parts
pub mod Reads
pub mod Same
pub mod Unknown
