pub mod CallLines
pub mod Entries
pub mod SideText
pub mod Texts
pub mod Witnessed
