-- The laws of symbols that are looked up, for this crate's own proofs and the crates above.

pub mod Names
pub mod Lookup
pub mod Named
