-- What the contracts of `symbol_lookup` cite.
pub mod Lookup
