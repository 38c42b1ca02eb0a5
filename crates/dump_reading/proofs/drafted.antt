-- The schema of a dump is the one that was dumped: `law_dump_schema`.
pub mod Bodies
pub mod Order
pub mod Schema
pub mod Types
