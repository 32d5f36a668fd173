-- What the contracts of `table_kind` cite.
pub mod Kind
