-- The numbers to try, proved.
pub mod Tried
