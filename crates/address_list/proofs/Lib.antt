-- The laws of a bench's rows.

pub mod Names
pub mod Keys
pub mod Insert
pub mod Listing
