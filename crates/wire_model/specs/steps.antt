-- What a reader's steps do, and what two schemas have in common, for inner contracts: no public contract or law
-- cites it.
pub mod CallsMeet
pub mod Levels
pub mod Meets
