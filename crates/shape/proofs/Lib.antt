-- The laws of the first pass.
pub mod Growth
pub mod Walk
