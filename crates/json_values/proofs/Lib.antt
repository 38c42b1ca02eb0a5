pub mod lemmas
mod Back
mod Behind
mod Contents
mod Counted
pub mod Fits
mod JsonTexts
mod Loops
mod Members
mod Missing
mod Names
mod Overlaid
pub mod ParsedTexts
mod Parts
mod Places
mod Plain
mod SideBySide
pub mod Texts
