-- The laws of salvaging.
pub mod Turn
pub mod Answer
pub mod Named
