mod Raw
mod Records
mod SameSpellings
mod Seen
mod Sequences
mod SideBySide
mod Suited
mod Typed
