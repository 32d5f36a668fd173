-- The laws of the walk, for this crate's own proofs and the crates above.

pub mod Steps
pub mod Named
