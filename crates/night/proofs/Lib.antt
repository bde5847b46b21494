-- The laws of a night's count: its lines, and what is kept from block to block.
pub mod Lined
pub mod Keeping
pub mod Outcomes
pub mod Passes
