-- The laws of a pool's words.
pub mod Block
pub mod Store
pub mod Blocks
pub mod Slots
pub mod Cells
pub mod Whole
pub mod Sized
pub mod Node
pub mod Frame
pub mod Read
pub mod Decide
pub mod Finding
pub mod Areas
pub mod Runs
