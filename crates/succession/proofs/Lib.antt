-- Laws of the calls by which one rack follows another.
pub mod AnyArea
pub mod Repeats
pub mod Outcomes
