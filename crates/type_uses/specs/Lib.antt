pub mod Parameters
pub mod Annotations
pub mod Kept
pub mod TypeUses
pub mod TypeUseViews
pub mod Bases
pub mod Ids
