-- The laws of scripts: those that this crate's own proofs cite, the theorem that every list of calls is the list of a script, and what the answer of a
-- list tells.

pub mod Plans
pub mod Encode
pub mod Book
pub mod Answer
