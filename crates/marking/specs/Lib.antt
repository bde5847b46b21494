-- The entry of a bundle that is asked for, and the whole outcomes of the calls on it.
pub mod Entry
pub mod Calls
