-- Demand 3 for object files, what RANGE guarantees, and what follows.
pub mod Entry
pub mod Demand3
pub mod Range
pub mod Corollaries
pub mod Figures
pub mod Wide
