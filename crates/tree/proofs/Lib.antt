-- The laws of trees that stand in the pool.
pub mod Standing
pub mod Way
pub mod Getting
pub mod Spanning
pub mod Edits
pub mod Replacing
pub mod Rooting
