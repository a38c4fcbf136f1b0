-- The laws of pieces.
pub mod Pieces
pub mod Lending
