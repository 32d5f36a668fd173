-- Figures of document 01.

pub mod Figures
