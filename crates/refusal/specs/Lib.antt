-- What the contracts of `refusal` cite.
pub mod Verdict
pub mod Refusal
pub mod Order
pub mod Part
