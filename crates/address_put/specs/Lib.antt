-- What the contracts of `address_put` cite.
pub mod New
