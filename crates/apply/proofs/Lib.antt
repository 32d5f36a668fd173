-- The laws of shifts and of entries applied: those that this crate's own proofs cite, and for the crates above that shifts modulo 2^64 are enough.

pub mod Stands
pub mod Entries
pub mod Formats
pub mod Exact
