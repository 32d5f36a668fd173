-- What the contracts of `shared_range` cite.
pub mod Shared
