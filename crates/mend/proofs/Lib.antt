-- The laws of mended entries, for this crate's own proofs and the crates above.
pub mod Put
pub mod Judged
pub mod Rows
pub mod Fields
pub mod Mended
pub mod Changes
