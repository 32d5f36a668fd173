-- What the contracts of `header` cite.
pub mod Open
pub mod Inside
