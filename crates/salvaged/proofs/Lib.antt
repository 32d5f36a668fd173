-- The theorems of a salvaged file, and their lemmas.
pub mod Accepted
pub mod Places
pub mod Walk
pub mod Exact
pub mod Bits
pub mod Theorem
pub mod Example
