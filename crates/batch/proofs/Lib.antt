-- The laws of a batch.
pub mod Singly
pub mod Room
pub mod One
pub mod Demands
