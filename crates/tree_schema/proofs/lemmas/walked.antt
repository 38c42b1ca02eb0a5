-- What a walk through trees finds, and lists put in order.
pub mod Ascii
pub mod Files
pub mod Lists
pub mod Placed
pub mod Totals
