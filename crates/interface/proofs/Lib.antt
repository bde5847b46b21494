-- The laws that the proofs of the calls for C cite, the round trips, and that the calls leave no choice.
pub mod Mapped
pub mod Given
pub mod LayoutTrips
pub mod KindTrips
pub mod Types
pub mod CallTrips
pub mod Outcomes
