pub mod Node
pub mod Stands
pub mod Lookup
