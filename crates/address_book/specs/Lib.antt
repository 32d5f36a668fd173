-- What the contracts of `address_book` and of the crates above it cite.
pub mod Book
pub mod Call
pub mod Run
