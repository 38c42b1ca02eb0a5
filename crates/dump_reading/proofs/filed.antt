-- The files of a dump and their paths: `law_dump_files`.
pub mod Files
pub mod InPlace
pub mod Numbers
pub mod Ordered
pub mod Paths
pub mod Sources
