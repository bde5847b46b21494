-- The places of a bundle, what each test of one decides, and its lists by their numbers.
pub mod Places
pub mod Deciding
pub mod Listed
pub mod Examples
pub mod RollsLeft
