-- The laws that the proofs about strings of bytes cite.
pub mod Bytes
pub mod Compared
pub mod Digits
pub mod Exact
pub mod Fronts
pub mod Numbers
pub mod Orders
pub mod Parts
pub mod Pieces
pub mod Puts
pub mod Rests
pub mod RoundTrips
pub mod Writings
pub mod Zeros
