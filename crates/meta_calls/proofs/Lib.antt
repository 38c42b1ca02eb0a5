mod Lengths
mod Codes
mod Told
