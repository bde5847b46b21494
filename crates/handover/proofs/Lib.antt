-- The laws that the proofs of taking over cite.
pub mod Cascades
pub mod Descents
pub mod Kept
pub mod Outcomes
pub mod Places
pub mod Statements
