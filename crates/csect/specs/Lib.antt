-- What the contracts of `csect` cite.
pub mod Csect
