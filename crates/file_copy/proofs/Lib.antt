-- The laws of a copy.
pub mod Copy
pub mod Put
