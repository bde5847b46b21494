-- The laws of texts.
pub mod Outcomes
pub mod Texts
