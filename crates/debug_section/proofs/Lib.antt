-- The laws of the debug section, for this crate's own proofs and the crates above.

pub mod Sections
pub mod Strings
