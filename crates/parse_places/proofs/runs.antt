-- How a stack goes on over tokens: step by step, as runs do, and to its end.
pub mod Finish
pub mod Follows
pub mod Runs
pub mod Stacks
pub mod Steps
pub mod Walks
