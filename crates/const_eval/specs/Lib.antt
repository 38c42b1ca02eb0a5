pub mod Outcomes
pub mod Held
pub mod Known
pub mod TreeViews
pub mod Numbers
pub mod Breaches
