-- Laws of the listings of an object file: their answers, how much memory they need, and what their refusals name.
pub mod Answers
pub mod Parts
pub mod Need
pub mod Named
