-- The laws that the proofs of the store cite, and the theorems about its calls.
pub mod Cut
pub mod Places
pub mod Tests
pub mod Puts
pub mod Kept
pub mod Outcomes
