-- What is sent of a call is received: requests, replies, and what comes of a call between two schemas.
pub mod Arguments
pub mod Exceptions
pub mod Methods
pub mod Replies
pub mod Requests
pub mod Types
pub mod Unknown
pub mod Values
