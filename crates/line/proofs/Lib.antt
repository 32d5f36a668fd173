-- The laws of the definitions of `line`.

pub mod Entries
pub mod Search
pub mod Block
