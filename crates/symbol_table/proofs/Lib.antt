-- The laws of the symbol table's rows.

pub mod Names
pub mod Opened
pub mod Csects
pub mod Visits
pub mod Named
