pub mod Batch
pub mod Singly
