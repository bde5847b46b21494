-- The desk's rule, and its question as C has it.
pub mod Verdict
pub mod Asked
