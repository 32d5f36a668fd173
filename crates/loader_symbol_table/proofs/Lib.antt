-- The laws of the table of loader symbols.

pub mod Rows
pub mod Symbols
