pub mod Fields
pub mod Place
pub mod Room
pub mod Taken
pub mod Written
