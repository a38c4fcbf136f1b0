-- The laws of a batch's turns and of its loop.
pub mod Turns
pub mod Going
