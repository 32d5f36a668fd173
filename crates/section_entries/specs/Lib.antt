-- What the contracts of `section_entries` cite.
pub mod Entries
