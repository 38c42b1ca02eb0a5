mod Orders
mod Ranges
mod Sorting
