-- The laws that Finalise's proofs cite.
pub mod Leaves
pub mod Outcomes
pub mod Said
