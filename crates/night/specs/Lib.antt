-- A night's blocks counted, as the morning report of document 02, M-103, wants them.
pub mod Lines
pub mod Pass
