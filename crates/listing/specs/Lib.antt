-- What the functions that follow the store's digests are asked for.
pub mod Leading
