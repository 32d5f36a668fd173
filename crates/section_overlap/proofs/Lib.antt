-- The rule of OVERLAP, and the search for the first.
pub mod Rule
pub mod CellLaws
pub mod Order
pub mod Readable
