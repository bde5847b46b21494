-- The laws of a block of the morning report.
pub mod Outcomes
pub mod Sorts
