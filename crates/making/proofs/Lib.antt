-- The laws that the proofs of New cite, and its one outcome.
pub mod Counts
pub mod Makes
pub mod Outcomes
pub mod Tables
