-- The theorems.
pub mod Rebased
pub mod Recorded
