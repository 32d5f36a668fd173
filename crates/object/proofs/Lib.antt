-- Laws of object files.
pub mod Sections
pub mod Answer
pub mod Named
