pub mod Steps
pub mod OnBag
pub mod Serving
