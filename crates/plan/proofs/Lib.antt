-- The laws of plans for a module in a file: those that this crate's own proofs cite, and for the crates above demand 3 and request 11 for every file.
pub mod Symbols
pub mod Names
pub mod Raw
pub mod Fit
pub mod Sound
pub mod Demand3File
pub mod FollowsFile
pub mod Named
