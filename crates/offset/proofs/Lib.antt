-- The laws of offsets.

pub mod Places
pub mod Found
pub mod Report
pub mod Named
pub mod Inside
