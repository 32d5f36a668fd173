-- The laws of the definitions of `text`, for its own proofs and for the crates above it.
pub mod Number
pub mod Stores
