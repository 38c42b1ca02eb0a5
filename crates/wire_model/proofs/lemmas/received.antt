-- What a stub and a client make of any bytes: `law_stub` and `law_client`.
pub mod Steps
