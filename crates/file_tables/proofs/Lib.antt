-- The laws of the sections, of the symbol table and of the string table.

pub mod Sections
pub mod Symbols
