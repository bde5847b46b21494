-- The laws that the proofs of derivation cite.
pub mod Growths
pub mod Walks
