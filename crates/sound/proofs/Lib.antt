-- The laws of the check.
pub mod Contents
pub mod Planting
pub mod Chaining
pub mod Verdict
