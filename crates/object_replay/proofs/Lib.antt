-- The laws of an object file's scripts: those that this crate's own proofs cite, and that every list of calls is the list of a script.
pub mod Plans
pub mod Answer
