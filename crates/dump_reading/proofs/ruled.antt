-- A dump breaks no rule on types: `law_dump_rules`.
pub mod Bases
pub mod Fields
pub mod Ids
pub mod Marks
pub mod Rules
pub mod TypeUses
pub mod Uses
