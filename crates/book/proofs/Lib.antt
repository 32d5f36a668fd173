-- The theorem of the book, what follows from it, and the laws of composition and of bytes.
pub mod Call
pub mod Book
pub mod Chain
pub mod Entries
pub mod Bytes
