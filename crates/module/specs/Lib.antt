-- What the contracts of `module` cite.
pub mod Module
pub mod Inside
