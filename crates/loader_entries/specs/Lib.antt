-- What the contracts of `loader_entries` cite.
pub mod Entries
