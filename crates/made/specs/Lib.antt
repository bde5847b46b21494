-- What the two theorems of document 02, M-106, say, about the rules of Activate and of the maker themselves.
pub mod Accepted
pub mod Refused
