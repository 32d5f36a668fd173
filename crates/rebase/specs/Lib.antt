-- What a module written for a plan is to builds and moves.
pub mod Rebase
