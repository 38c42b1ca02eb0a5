-- What is sent of a call is received: requests, replies, and what comes of a call between two schemas.
pub mod Itself
pub mod Outcomes
pub mod Tokens
