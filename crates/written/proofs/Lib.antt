-- What is known of an accepted module, for the code and the theorems above.
pub mod Found
pub mod Built
