-- What demand 3 speaks of, in the order of its sentences: calls and what they return for signing, histories of calls, the chip's marks, the strings hashed, and
-- the demand.
pub mod Calls
pub mod Histories
pub mod Chip
pub mod Hashed
pub mod Demand
