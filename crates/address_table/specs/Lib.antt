-- What the contracts of `address_table` cite.
pub mod Table
pub mod Run
