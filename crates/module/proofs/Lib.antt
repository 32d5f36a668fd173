-- The laws of modules: those that this crate's own proofs cite, and what an accepted module guarantees, for the crates above.

pub mod Extent
pub mod Accepted
pub mod Named
