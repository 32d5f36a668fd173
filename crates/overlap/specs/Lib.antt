-- What the contracts of `overlap` cite.
pub mod Cells
