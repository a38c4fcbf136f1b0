-- The laws of splitting.
pub mod Nodes
pub mod Halves
pub mod Splitting
pub mod Raising
