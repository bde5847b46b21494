-- What the calls for C answer: the contents as C has them, and the reading and writing of them.
pub mod Contents
pub mod Calls
