-- The laws of a section's tables, for this crate's proofs and the crates above.
pub mod Tables
pub mod Once
pub mod Named
