-- What the functions behind Activate and Bytes to check are asked for.
pub mod Asked
