mod Texts
mod Packages
mod Placing
mod Examples
