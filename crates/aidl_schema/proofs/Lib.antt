mod BrokenExamples
mod Examples
mod ExamplesValid
mod Follow
mod Halving
mod SameConst
mod Shapes
mod Unbroken
pub mod lemmas
