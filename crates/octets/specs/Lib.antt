-- What strings of bytes hold, for the layouts and the hash.
pub mod Numbers
pub mod Strings
pub mod Layouts
