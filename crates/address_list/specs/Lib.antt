-- What the contracts of `address_list` cite.
pub mod Numbers
