-- Rules 5 to 7 of a valid schema: constants, initializers, enumerators.
pub mod Checked
pub mod EnumsFilled
