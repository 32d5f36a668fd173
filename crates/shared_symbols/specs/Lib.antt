-- What the contracts of `shared_symbols` cite.
pub mod Shared
