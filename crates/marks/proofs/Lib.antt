-- The laws of marks, for the proofs here and in the crates above.
pub mod Laws
