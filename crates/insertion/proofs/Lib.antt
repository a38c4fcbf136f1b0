-- The laws of insertion.
pub mod Nodes
pub mod Ways
pub mod Rooms
pub mod Inserting
pub mod Needing
pub mod Rooting
pub mod Whole
