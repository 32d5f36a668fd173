-- What the contracts of `plan` cite, and what its theorems say.
pub mod Relocatable
pub mod Follows
