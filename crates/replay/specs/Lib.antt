-- What the contract of `replay` cites.
pub mod Script
pub mod Answer
