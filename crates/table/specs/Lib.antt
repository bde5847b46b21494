-- The ledger table as rows, and what the calls leave in it.
pub mod Flat
pub mod Held
pub mod Typed
