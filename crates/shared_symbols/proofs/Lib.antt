-- The laws of SHARED, for this crate's own proofs and the crates above.
pub mod Sections
