-- The laws of a block's check.
pub mod Checks
