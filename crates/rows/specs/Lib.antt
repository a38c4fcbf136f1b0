pub mod Row
pub mod Table
pub mod Ours
pub mod Bytes
