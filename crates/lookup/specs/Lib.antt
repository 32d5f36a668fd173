-- What the contracts of `lookup` cite.
pub mod Symbol
