pub mod Compiling
pub mod Meaning
pub mod Computing
pub mod Worth
pub mod Planning
pub mod Searching
pub mod Putting
pub mod Nodes
