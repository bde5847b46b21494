-- The proof of demand 3 over the exported calls: what is lent as rows stands as its bytes do, so that the premises are those of `safety`. M-108 likewise.
pub mod RowsGiven
pub mod Contracts
pub mod CallsFlat
pub mod Standing
pub mod Premises
pub mod Theorem
pub mod RowsShown
pub mod Isolation
