-- The laws of numbers in bytes.
pub mod Laws
