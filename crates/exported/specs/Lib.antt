-- Demand 3 as a program in C meets it, in the order of its sentences: what C's types give, what each exported call leaves, histories of such calls, the chip's
-- marks, the strings hashed, and the demand. Calls, events and claims are those of `safety/specs`; here a record is a head and rows.
-- Behind it, what M-108 says of two companies, of the same calls.
pub mod Types
pub mod Calls
pub mod Histories
pub mod Chip
pub mod Hashed
pub mod Demand
pub mod Isolation
