-- What an accepted section guarantees, for the crates above; a figure of document 01.

pub mod Judged
pub mod Figures
