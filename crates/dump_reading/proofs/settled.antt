-- The items of a dump have values: `law_dump_constants`.
pub mod Given
pub mod Items
pub mod Levels
pub mod Literals
pub mod Members
pub mod Outcomes
pub mod Shapes
