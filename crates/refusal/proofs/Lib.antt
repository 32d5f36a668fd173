-- The laws of orders of checks, of their refusals and of reports, for the crates above.

pub mod Order
pub mod Causes
pub mod Report
