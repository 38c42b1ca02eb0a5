mod Allowed
mod FieldRows
mod FirstShown
mod Firsts
mod Halves
mod Letters
mod NamedTexts
mod PlaceBytes
mod PlainUnions
mod Reaches
mod RecordParts
mod SentBack
mod Spots
mod Trials
pub mod lemmas
