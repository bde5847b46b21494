-- What the functions behind the maker's call are asked for.
pub mod Sizes
pub mod Written
pub mod Results
