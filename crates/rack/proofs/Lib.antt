-- The laws that the proofs about racks cite, those that later crates cite, and the numbers to try.
pub mod Examples
pub mod NumbersToTry
pub mod Outcomes
pub mod Racks
pub mod RackTrips
pub mod Shapes
pub mod Walks
pub mod Writes
