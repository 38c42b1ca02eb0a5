mod Below
mod Edited
mod Halves
mod Kept
mod Numbers
mod Places
mod Sorted
