-- What `write_module` promises, and what its theorems speak of.
pub mod Written
pub mod Shared
pub mod Write
pub mod Changed
pub mod Moved
