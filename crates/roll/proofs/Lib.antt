-- The laws that the proofs about a roll's blocks cite, and the theorems about reading and writing a roll.
pub mod Strings
pub mod Blocks
pub mod Cuts
pub mod Rolls
pub mod Spreads
pub mod RollTrips
pub mod Outcomes
pub mod NumbersToTry
