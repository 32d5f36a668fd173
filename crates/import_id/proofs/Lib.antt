-- The laws that the proofs of this crate's functions cite, and those of the crates above.
pub mod Strings
pub mod Named
