-- The laws of key words, for the crates above.

pub mod Words
pub mod Good
