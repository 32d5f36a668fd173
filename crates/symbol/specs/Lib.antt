-- What the contracts of `symbol` cite.
pub mod Entry
pub mod Name
pub mod Symbol
