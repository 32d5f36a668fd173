-- What the contracts of `line_table` cite.
pub mod Table
