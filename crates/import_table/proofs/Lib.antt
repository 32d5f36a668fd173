-- The laws of the import id table.

pub mod Rest
pub mod Imports
