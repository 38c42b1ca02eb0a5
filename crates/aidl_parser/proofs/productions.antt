pub mod Laws
pub mod Types
pub mod Annots
pub mod Inits
pub mod Fields
pub mod Bodies
pub mod Decls
pub mod WholeFiles
