-- What the contracts of `object_range` cite.
pub mod Sections
