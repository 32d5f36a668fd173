-- What the contracts of `mend` cite.
pub mod Mend
pub mod Report
pub mod Entry
