-- The laws of relocation entries: those that this crate's own proofs cite, and what an entry that is good by itself guarantees.

pub mod Entries
pub mod Figures
