-- The order of the entries' refusals, and what accepted ones guarantee.
pub mod Order
pub mod Accepted
