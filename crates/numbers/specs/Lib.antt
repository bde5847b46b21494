-- 01's numbers to try.
pub mod Cases
