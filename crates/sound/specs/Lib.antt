pub mod Filled
pub mod Check
