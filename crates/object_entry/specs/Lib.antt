-- What the contracts of `object_entry` cite.
pub mod Entry
