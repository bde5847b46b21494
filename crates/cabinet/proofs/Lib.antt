-- The laws of a block of the store.
pub mod Blocks
