-- What the contracts of `relocation_table` cite.
pub mod Rows
