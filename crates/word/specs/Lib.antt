-- What the contracts of `word` cite.
pub mod Number
pub mod Signed
pub mod Zero
pub mod Test
