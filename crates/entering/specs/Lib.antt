-- The parts of Initialise's rule.
pub mod Parts
