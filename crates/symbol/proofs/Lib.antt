-- The laws of symbol table entries, for this crate's own proofs and the crates above, and figures of document 01.

pub mod Opened
pub mod Names
pub mod Sections
pub mod Checks
pub mod Figures
pub mod Named
