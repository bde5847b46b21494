-- What the contracts on hexadecimal text cite.
pub mod Digits
