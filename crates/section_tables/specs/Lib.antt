-- What the contracts of `section_tables` cite.
pub mod Tables
