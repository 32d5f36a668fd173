-- What the contracts of `format` cite.
pub mod Limit
pub mod Layout
pub mod Name
pub mod Range
