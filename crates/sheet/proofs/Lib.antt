-- The laws of `sheet`, for its own proofs and for the crates above it.

pub mod Addresses
pub mod Answers
pub mod Forms
pub mod Theorems
