-- The laws that the proofs of the calls on an entry of a bundle cite, and that the calls leave no choice.
pub mod Standing
pub mod Told
pub mod Bundles
pub mod Outcomes
