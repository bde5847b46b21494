-- A roll as it travels, in blocks of 512 bytes.
pub mod Blocks
pub mod Roll
pub mod Places
