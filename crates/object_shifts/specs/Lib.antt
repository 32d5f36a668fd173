-- What the contracts of `object_shifts` cite.
pub mod Places
