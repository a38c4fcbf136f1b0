pub mod Layout
pub mod Sound
pub mod Parts
pub mod Frame
pub mod Find
