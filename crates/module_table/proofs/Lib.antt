-- The laws of a listed table.

pub mod Tables
pub mod Named
