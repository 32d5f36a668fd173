-- What the contracts of `object_table` cite.
pub mod Table
