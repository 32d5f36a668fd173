-- What the contract of `replay_object` cites.
pub mod Script
pub mod Answer
