mod Behind
mod ReadBack
mod Acting
mod Versions
