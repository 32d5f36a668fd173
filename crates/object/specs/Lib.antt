-- What the contracts of `object` cite, in the order of request 5.
pub mod Sections
pub mod Check
