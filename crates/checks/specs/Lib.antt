-- Blocks of 512 bytes that end in document 01's check.
pub mod Check
