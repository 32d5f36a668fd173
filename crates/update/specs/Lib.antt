-- What the contracts of `update` cite.
pub mod Update
