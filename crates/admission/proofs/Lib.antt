-- The laws of the door's promise.
pub mod One
pub mod Kept
pub mod Admitting
pub mod Demands
