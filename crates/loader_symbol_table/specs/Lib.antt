-- What the contracts of `loader_symbol_table` cite.
pub mod Rows
