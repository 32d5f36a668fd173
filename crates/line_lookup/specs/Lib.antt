-- What the contracts of `line_lookup` cite.
pub mod Lookup
pub mod Meaning
