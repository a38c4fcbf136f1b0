pub mod Nodes
pub mod Ready
