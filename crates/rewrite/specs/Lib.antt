-- What the contracts of `rewrite` cite.
pub mod InPlace
pub mod Ready
