-- What the contracts of `section_lookup` cite.
pub mod Lookup
