mod Commas
mod Cuts
