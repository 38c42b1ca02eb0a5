-- What was spelled is read again, whatever follows it: `law_one_reading`.
pub mod All
pub mod Texts
pub mod Words
