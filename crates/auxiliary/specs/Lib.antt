-- What the contracts of `auxiliary` cite.
pub mod Auxiliary
