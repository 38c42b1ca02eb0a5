pub mod Json
pub mod Named
pub mod ValueText
pub mod steps
