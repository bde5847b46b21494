-- What Activate and the maker both ask of a bundle's entries.
pub mod Asked
