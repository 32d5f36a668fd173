-- The laws of the book, and the theorems on lists of calls.

pub mod Order
pub mod Laws
pub mod Checks
pub mod Apart
pub mod Full
