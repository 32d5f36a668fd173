-- What the lister writes.
pub mod Listed
