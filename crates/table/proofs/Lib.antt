-- Laws of the ledger table as rows.
pub mod RowTrips
pub mod RowTypes
pub mod RowsPut
pub mod Repeats
pub mod Leaves
pub mod HeldRows
pub mod LeftRows
pub mod Outcomes
