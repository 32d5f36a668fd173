-- The frame laws.
pub mod Same
pub mod Change
pub mod Fields
pub mod Readers
pub mod Open
