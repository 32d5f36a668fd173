-- The laws of rows, for the crates above.

pub mod Laws
