-- What the contracts of `loader` cite.
pub mod Loader
pub mod Inside
