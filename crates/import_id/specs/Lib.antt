-- What the contracts of `import_id` cite.
pub mod Import
