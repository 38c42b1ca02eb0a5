mod MemberLoops
mod Examples
mod Loops
pub mod lemmas
