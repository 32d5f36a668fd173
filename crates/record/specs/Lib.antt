-- What the contracts of `record` cite.
pub mod Record
pub mod Claim
pub mod Count
