-- What the contracts of `image` cite.
pub mod Report
