-- The laws that the proofs about rows cite, and those that a caller goes by.
pub mod Labels
pub mod Rows
pub mod Tables
pub mod Searches
pub mod InOrder
pub mod Messages
pub mod Outcomes
