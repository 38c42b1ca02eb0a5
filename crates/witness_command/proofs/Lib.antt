mod Added
mod Lines
mod Parts
