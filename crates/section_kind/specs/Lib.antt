-- What the contracts of `section_kind` cite.
pub mod Kind
pub mod Claim
