-- The two theorems and the laws that they stand on.
pub mod Fronts
pub mod Derivations
pub mod Readings
pub mod Composings
pub mod Acceptance
pub mod Forced
pub mod Refusing
