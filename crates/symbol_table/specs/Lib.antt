-- What the contracts of `symbol_table` cite.
pub mod Row
pub mod Table
