pub mod Tree
pub mod Fit
pub mod Insert
pub mod Remove
pub mod Calls
