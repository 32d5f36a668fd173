-- The laws of loadable modules: what an accepted module guarantees, and where its refusals point.

pub mod Accepted
pub mod Named
