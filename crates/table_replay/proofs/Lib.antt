-- The laws of scripts of table calls: those that this crate's own proofs cite, the theorem that every list of the request's calls is the
-- list of a script, and what a script from the empty table answers and leaves.

pub mod Ends
pub mod Names
pub mod Made
pub mod Calls
pub mod Answer
pub mod Encode
pub mod Claim
pub mod Report
