-- The laws that the proofs cite.
pub mod InPlace
pub mod Entries
pub mod Write
