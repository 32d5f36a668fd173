-- What the contracts of `apply` cite.
pub mod Shift
