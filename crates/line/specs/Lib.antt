-- What the contracts of `line` cite.
pub mod Line
pub mod Search
pub mod Meaning
pub mod Block
