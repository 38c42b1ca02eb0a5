mod AnswerExamples
mod Members
mod Outs
mod Fitting
mod LineFits
mod Passed
mod ThrownFits
mod Entries
mod Examples
mod Faults
mod SameNames
mod Types
pub mod lemmas
mod Entered
mod EveryCall
mod QuietLines
