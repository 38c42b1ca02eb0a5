pub mod lemmas
mod Files
mod MemberRounds
mod productions
