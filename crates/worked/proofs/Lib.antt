-- A worked history that meets the premises of demand 3.
pub mod Strings
pub mod Digests
pub mod Racks
pub mod Rolls
pub mod Passing
pub mod Goings
pub mod Story
pub mod Steps
pub mod Bundled
pub mod Verdicts
pub mod Apart
pub mod Kept
pub mod Both
