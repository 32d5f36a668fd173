-- Laws of a branch's value and of exact sums.
pub mod Value
pub mod Wide
pub mod Computed
