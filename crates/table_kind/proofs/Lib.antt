-- Laws of a table's places, for the crates above.
pub mod Places
