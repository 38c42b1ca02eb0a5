-- Rules 5 to 7 of a valid schema: constants, initializers, enumerators.
pub mod Constants
pub mod Enums
pub mod EnumsNamed
pub mod Initials
