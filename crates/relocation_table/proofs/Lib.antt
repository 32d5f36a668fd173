-- The laws of the table of relocation entries.

pub mod Rows
