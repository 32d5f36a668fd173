-- The laws of the csect answers, for this crate's own proofs and the crates above.

pub mod Answers
pub mod Named
