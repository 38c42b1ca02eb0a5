-- Where the bytes stop, reading as a function answers that status: `law_read_of` and `law_reads_or_stops`.
pub mod All
pub mod Statuses
