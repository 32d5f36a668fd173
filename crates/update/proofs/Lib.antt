-- The laws of `update`, for its own proofs and for the crates above it.

pub mod Remainder
pub mod Stores
pub mod Laws
