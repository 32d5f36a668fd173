-- The laws of ranges that share a byte.
pub mod Shared
