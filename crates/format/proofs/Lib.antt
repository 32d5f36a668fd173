-- Laws of layouts and parts of the file, for the crates above.

pub mod Layouts
pub mod Ranges
