-- RANGE section by section is RANGE of the object.
pub mod Sums
pub mod Words
pub mod Order
