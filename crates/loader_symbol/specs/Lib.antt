-- What the contracts of `loader_symbol` cite.
pub mod Symbol
