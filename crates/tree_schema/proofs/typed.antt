-- Rules 3, 4 and 8 of a valid schema: types, methods, bounds.
pub mod Bounds
pub mod Forms
pub mod Members
pub mod MethodIds
pub mod Methods
pub mod Schema
pub mod Shapes
pub mod Uses
