-- The laws that the proofs about statements cite.
pub mod Cuts
pub mod Fields
pub mod Held
pub mod Laid
pub mod Outcomes
pub mod Puts
pub mod Records
pub mod Shapes
pub mod StatementTrips
pub mod Strings
pub mod Types
