-- Laws of the calls on a record that the caller lends.
pub mod Woken
pub mod MovedRows
pub mod Outcomes
