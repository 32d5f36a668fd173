-- What the contract of `replay_table` cites.
pub mod Script
pub mod Answer
