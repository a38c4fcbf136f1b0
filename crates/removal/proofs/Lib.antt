-- The laws behind removal.
pub mod Descending
pub mod Going
pub mod Rising
pub mod Lowering
