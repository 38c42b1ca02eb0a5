-- What follows of the schemas that trees have.
pub mod JudgesOne
pub mod RunsKept
