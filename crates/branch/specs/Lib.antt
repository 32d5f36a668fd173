-- What the contracts of `branch` cite.
pub mod Branch
