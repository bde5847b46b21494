-- The outcomes that Wake's contract allows.
pub mod Outcomes
