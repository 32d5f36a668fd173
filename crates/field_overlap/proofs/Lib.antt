-- The laws of the rule and of readable entries, for the crates above, and of fields in ascending order.

pub mod Rule
pub mod Readable
pub mod Aligned
pub mod Order
