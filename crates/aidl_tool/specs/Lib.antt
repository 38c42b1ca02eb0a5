pub mod Between
pub mod Headline
pub mod Meant
pub mod OneMeaning
pub mod OneRun
pub mod SomeMeaning
