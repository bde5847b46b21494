-- The laws of refusals.
pub mod Answered
pub mod Ones
pub mod Orders
