-- Builds and moves of an object file, in the order of request 5.
pub mod Entry
pub mod Range
pub mod Object
pub mod Call
pub mod Book
