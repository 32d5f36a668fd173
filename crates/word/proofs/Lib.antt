-- The laws of the definitions of `word`, for its own proofs and for the crates above it.

pub mod Number
pub mod Zero
pub mod Test
