-- Laws of the old rolls walked one after the other.
pub mod Walks
pub mod FoundPlaces
pub mod Nearest
