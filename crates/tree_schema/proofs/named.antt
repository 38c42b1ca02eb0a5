-- Rules 1, 2 and 9 of a valid schema: names, members, limits.
pub mod MemberNames
pub mod MemberWeights
