-- What the contracts of `loadable` cite.
pub mod Loadable
pub mod Valid
