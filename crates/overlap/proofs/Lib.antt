-- The laws of the cells.

pub mod CellLaws
