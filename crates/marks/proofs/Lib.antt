-- What the three tests say together; lists of entries, the pairs that they are cut into, and the refusals of their marks.
pub mod Four
pub mod Listed
pub mod Pairs
pub mod Refused
