-- The laws of a written block, and that each call has one outcome.
pub mod Filing
pub mod Outcomes
