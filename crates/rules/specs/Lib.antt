-- The keeper's rules: its record, what a call is lent and leaves, the handover bundle, and each call from what it is lent to its whole outcome, in the
-- order of 01; 02's call behind the one that it goes with.
pub mod Record
pub mod Told
pub mod Outcomes
pub mod Table
pub mod Rows
pub mod Companies
pub mod Wake
pub mod Initialise
pub mod New
pub mod Append
pub mod AppendMany
pub mod OneByOne
pub mod Read
pub mod Finalise
pub mod Bundle
pub mod Derivation
pub mod Activate
pub mod Check
