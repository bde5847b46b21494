-- What statements are, for the contracts of their reading and writing.
pub mod Kinds
pub mod Contents
pub mod Cut
pub mod Layout
pub mod Shape
