-- What an object file is to builds and moves.
pub mod Object
pub mod Shifts
pub mod Ready
