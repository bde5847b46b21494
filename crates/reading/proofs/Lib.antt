-- The laws that the proofs of Read, and Append and read, cite, and the one outcome of each.
pub mod Outcomes
pub mod Readings
