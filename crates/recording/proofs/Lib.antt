-- The laws that the proofs of Append many cite, and its one outcome.
pub mod Parts
pub mod Entries
pub mod Outcomes
