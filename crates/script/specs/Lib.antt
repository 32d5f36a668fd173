-- Lists of calls as numbers.
pub mod Script
pub mod Tally
