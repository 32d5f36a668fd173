-- Every object file is sound, so demand 3 holds for it.
pub mod Ready
pub mod Turns
pub mod Sound
pub mod Demand3File
pub mod Named
