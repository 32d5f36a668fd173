-- The laws of look-ups.

pub mod Symbols
pub mod Named
