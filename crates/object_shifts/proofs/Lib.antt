-- The laws of shifts and of plans: those that this crate's own proofs cite, and those of the crates above.
pub mod Places
pub mod Fit
