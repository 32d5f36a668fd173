-- What the contracts of `loader_header` cite.
pub mod Header
