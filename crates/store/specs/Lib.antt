-- The cabinet store of document 02, M-104: its area, the append, the read, and what a caller may rely on.
pub mod Area
pub mod Append
pub mod Read
pub mod Answers
pub mod Kept
