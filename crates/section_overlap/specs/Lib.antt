-- What the contracts of `section_overlap` cite.
pub mod Overlap
pub mod Cells
pub mod Ascending
