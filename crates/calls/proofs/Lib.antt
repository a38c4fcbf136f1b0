pub mod Bags
pub mod Reading
pub mod Editing
