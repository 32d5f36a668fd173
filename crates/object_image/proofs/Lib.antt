-- The laws that the proofs of this crate's functions cite.
pub mod Checks
pub mod Calls
