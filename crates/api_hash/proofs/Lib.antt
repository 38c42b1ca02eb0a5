mod Orders
mod Sorting
