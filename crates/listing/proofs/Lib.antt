-- The laws of the listing's text.
pub mod Lines
pub mod Example
