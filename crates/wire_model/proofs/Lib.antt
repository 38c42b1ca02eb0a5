mod CallExamples
mod Examples
mod Forms
mod Lenient
mod Parts
mod RawForms
mod Steps
mod TermExamples
mod TextForms
mod ViewExamples
mod again
mod calls
pub mod lemmas
mod received
mod stopped
mod told
mod viewed
