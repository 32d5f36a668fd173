-- What the theorems of `salvaged` speak of.
pub mod Claim
