-- Laws of the bundle's length, of what is written, and of the order of refusals.
pub mod Placed
pub mod Tabled
pub mod Lengths
pub mod Feeding
pub mod Putting
pub mod Cascade
pub mod Outcomes
