-- What a walk through trees finds, and lists put in order.
pub mod Breaches
pub mod Nested
pub mod Outers
