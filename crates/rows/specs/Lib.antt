-- A ledger's row, the table of rows, the search in it, and the digests of both.
pub mod Sizes
pub mod Row
pub mod Table
pub mod Search
pub mod Digests
