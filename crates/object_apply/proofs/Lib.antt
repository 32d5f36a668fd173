-- Laws of amounts modulo 2^64, and of entries applied one after the other.
pub mod Amounts
pub mod Entries
