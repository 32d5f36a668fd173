-- The laws of a line table in a file, and what the answer for an address says.
pub mod Tables
pub mod Answered
pub mod Named
