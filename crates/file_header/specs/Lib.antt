-- What the contracts of `file_header` cite.
pub mod Header
