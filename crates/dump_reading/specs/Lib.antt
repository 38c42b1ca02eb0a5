pub mod Bare
pub mod Declared
pub mod DumpTrees
pub mod Dumped
pub mod Reading
pub mod Valued
pub mod Files
