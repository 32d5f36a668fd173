-- What the contracts of `import_table` cite.
pub mod Imports
