-- What the contracts of `relocation` cite.
pub mod Relocation
