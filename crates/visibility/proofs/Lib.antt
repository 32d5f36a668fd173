-- The laws of visibilities, for the crates above.

pub mod Version
pub mod Known
