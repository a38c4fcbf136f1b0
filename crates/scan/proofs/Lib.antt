-- The laws of the program's work.
pub mod Laws
