pub mod Nodes
pub mod Ready
pub mod Steps
