-- The laws of a loader symbol.

pub mod Checks
pub mod Records
pub mod Strings
