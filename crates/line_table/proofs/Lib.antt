-- The laws of a listed line table, and what its refusals name.
pub mod Blocks
pub mod Answers
pub mod Named
