-- The laws of opening: those that this crate's own proofs cite, and `Accepted`, what an accepted file guarantees, for the crates above.

pub mod Answer
pub mod Accepted
pub mod Figures
pub mod Named
