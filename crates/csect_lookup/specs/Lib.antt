-- What the contracts of `csect_lookup` cite.
pub mod Lookup
