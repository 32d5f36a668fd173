-- The laws of the loader section: those that this crate's own proofs cite, and what an accepted one guarantees, for the crates above.

pub mod Accepted
pub mod Named
