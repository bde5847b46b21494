-- The laws that the proofs of Initialise cite, and its one outcome.
pub mod Enters
pub mod Outcomes
