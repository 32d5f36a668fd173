-- What the contracts of `visibility` cite.
pub mod Visibility
