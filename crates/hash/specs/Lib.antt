-- What the hash library promises: FIPS 180-4 in its own order, over the word width, and its value SHA-256.
pub mod Words
pub mod Functions
pub mod Family
pub mod Padding
pub mod Schedule
pub mod Rounds
pub mod Digest
pub mod Sha256
pub mod Turns
pub mod Promise
