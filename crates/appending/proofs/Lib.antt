-- The laws that the proofs of Append cite, and its one outcome.
pub mod Answers
pub mod Entries
pub mod Outcomes
