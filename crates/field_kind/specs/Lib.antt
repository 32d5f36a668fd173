-- What the contracts of `field_kind` cite.
pub mod Field
