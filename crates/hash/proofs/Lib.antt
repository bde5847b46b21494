-- The laws that the hash library's proofs cite, by what they are about.
pub mod Bitwise
pub mod Rotations
pub mod Mixing
pub mod Stored
pub mod Absorbed
pub mod Digests
pub mod Gap
pub mod Padded
pub mod Outcomes
pub mod Promised
pub mod Rounds
pub mod Schedule
pub mod Steps
pub mod Ring
pub mod Turns
