-- What the contracts of `walk` cite.
pub mod Walk
