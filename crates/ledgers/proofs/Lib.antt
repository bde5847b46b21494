-- The laws that the proofs of the calls on ledgers cite.
pub mod Actives
pub mod Given
pub mod Places
