-- The laws that the proofs about the verdict cite, those of a verdict that nothing refuses, its one outcome, and the numbers to try.
pub mod Answers
pub mod NumbersToTry
pub mod Outcomes
pub mod Vouches
