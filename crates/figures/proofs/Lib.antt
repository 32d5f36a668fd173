-- Bench figures P1 to P11 of document 01.
pub mod Figures
