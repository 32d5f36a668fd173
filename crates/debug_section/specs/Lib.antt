-- What the contracts of `debug_section` cite.
pub mod Debug
