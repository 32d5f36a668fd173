-- What the contracts of `field_overlap` cite.
pub mod Overlap
pub mod Aligned
pub mod Ascending
