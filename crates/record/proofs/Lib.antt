-- The laws of the definitions of `record`.
pub mod Hex
pub mod Lines
pub mod Theorems
pub mod Stores
pub mod Images
pub mod Judge
pub mod Reading
pub mod Values
