-- A block of the morning report of document 02, M-103, and the judging of a receipt.
pub mod Block
pub mod Judged
pub mod Sorts
