-- What the contracts of `file_tables` cite.
pub mod Tables
