-- The laws of the table's memory, for the crates above.

pub mod Match
pub mod Rows
pub mod Steps
pub mod Memory
pub mod Calls
pub mod Runs
