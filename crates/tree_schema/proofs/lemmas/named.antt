-- Rules 1, 2 and 9 of a valid schema: names, members, limits.
pub mod Limits
pub mod Members
pub mod Numbers
pub mod Schema
