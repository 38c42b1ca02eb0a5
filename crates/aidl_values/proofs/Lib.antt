mod ConstValues
mod Counted
mod Defaults
mod ElementAt
mod Ended
mod Greatest
mod Overlays
mod Parts
mod Rising
mod TypeTests
mod Typed
pub mod lemmas
