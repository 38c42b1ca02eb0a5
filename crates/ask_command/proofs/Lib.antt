mod Hashes
mod Unscripted
mod AskSteps
