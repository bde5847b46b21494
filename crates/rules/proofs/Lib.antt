-- The laws of the rules that proofs of calls and of safety cite: what each call asks first, what a refused one leaves, what is known of an accepted one, and
-- what becomes of the table.
pub mod Firsts
pub mod Refused
pub mod FoundRows
pub mod Initialised
pub mod Prepared
pub mod Companies
pub mod Noted
pub mod NewPlace
pub mod Finalised
pub mod Somes
pub mod Tolds
pub mod Ones
pub mod Derived
pub mod Activated
pub mod TablesChanged
pub mod TablesLeft
pub mod RowsParts
pub mod RowsMoved
pub mod OneByOne
