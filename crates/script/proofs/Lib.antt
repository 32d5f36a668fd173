-- The laws of scripts.
pub mod Calls
pub mod Plans
pub mod Loop
pub mod Encode
