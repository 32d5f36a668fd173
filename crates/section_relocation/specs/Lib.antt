-- What the contracts of `section_relocation` cite.
pub mod Entry
