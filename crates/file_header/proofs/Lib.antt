-- The laws of the file header and of the place of a section header.

pub mod Fields
pub mod Checked
