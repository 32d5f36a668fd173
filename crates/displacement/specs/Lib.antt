-- What the contracts of `displacement` cite.
pub mod Reach
