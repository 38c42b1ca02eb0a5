mod Codes
mod Digits
