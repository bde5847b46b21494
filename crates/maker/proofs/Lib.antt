-- Laws of the maker's rule.
pub mod Orders
pub mod OldLabels
pub mod Tops
pub mod RollsMade
pub mod Listings
pub mod FirstTests
