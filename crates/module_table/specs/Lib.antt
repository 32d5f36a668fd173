-- What a listed table of a module is.
pub mod Table
