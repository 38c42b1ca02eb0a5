-- What reading as a function answers is a reading, or a stop: `law_read_of` and `law_reads_or_stops`.
pub mod All
pub mod Records
pub mod Sequences
pub mod Texts
pub mod Unions
pub mod Words
