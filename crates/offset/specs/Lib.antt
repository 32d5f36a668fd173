-- What the contracts of `offset` cite.
pub mod Offset
pub mod Report
pub mod Named
