-- What the walks over a bundle ask, and its two lists by their numbers.
pub mod Walked
pub mod Lists
pub mod Rolls
