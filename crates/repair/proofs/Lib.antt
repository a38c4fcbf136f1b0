-- The laws behind the repair of a child.
pub mod Ends
pub mod Pairing
pub mod Moves
pub mod Places
pub mod Choice
