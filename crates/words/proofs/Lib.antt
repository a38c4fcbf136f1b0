-- The laws of `run` and of `sets`, for the proofs here and in the crates above.
pub mod Laws
