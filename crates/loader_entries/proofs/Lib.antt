-- The laws of judged entries: the order of their refusals, and what is known before the first.

pub mod Readable
pub mod Order
