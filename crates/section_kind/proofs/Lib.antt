-- The laws of `section_kind`.
pub mod Lookup
pub mod List
